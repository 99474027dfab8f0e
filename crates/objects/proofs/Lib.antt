pub mod Stores
pub mod Limits
pub mod Cells
pub mod Whole
pub mod Passed
pub mod Fields
pub mod Trips
pub mod Again
