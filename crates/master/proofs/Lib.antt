pub mod Pools
pub mod Frames
pub mod Reading
pub mod Calls
pub mod Stores
pub mod Views
