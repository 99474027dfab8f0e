pub mod Sequence
pub mod Editions
pub mod Sound
