pub mod Queue
pub mod Follows
pub mod Theorems
pub mod When
pub mod Why
