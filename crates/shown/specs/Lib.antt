pub mod Value
pub mod Whole
pub mod Promises
pub mod Examples
