pub mod Queue
pub mod Promises
