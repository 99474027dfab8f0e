pub mod Profile
pub mod Promises
