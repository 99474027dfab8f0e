pub mod Fields
pub mod Layout
pub mod Messages
pub mod Clauses
pub mod Promises
