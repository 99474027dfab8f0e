pub mod Events
pub mod Examples
pub mod Demand1
pub mod Order
pub mod Neighbour
pub mod Editions
pub mod Named
pub mod Promises
