pub mod Number
pub mod Text
pub mod Printing
pub mod Steps
pub mod LaidOut
pub mod Promises
pub mod Examples
