-- What the functions of this crate promise one another, and no rule of 01.
pub mod Index
pub mod Walk
pub mod Look
pub mod Seen
