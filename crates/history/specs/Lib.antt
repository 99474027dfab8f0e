pub mod Runs
pub mod Ticks
pub mod Seats
pub mod Steps
pub mod Answers
pub mod Log
pub mod Stored
pub mod Promises
