pub mod HowLate
pub mod Replayed
pub mod Sample
