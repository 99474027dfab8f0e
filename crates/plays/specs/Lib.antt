pub mod Plays
pub mod Leavings
pub mod Frames
pub mod Ends
pub mod FiveASecond
pub mod Promises
