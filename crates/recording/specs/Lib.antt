pub mod State
pub mod Indication
pub mod Kept
pub mod Promises
