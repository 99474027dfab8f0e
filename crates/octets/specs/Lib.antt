pub mod Pick
pub mod Numbers
pub mod Octets
pub mod Bits
pub mod Label
pub mod Refusals
