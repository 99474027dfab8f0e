pub mod HowLate
pub mod Replayed
pub mod Cases
pub mod Sample
pub mod Promises
