pub mod Arrays
pub mod Every
