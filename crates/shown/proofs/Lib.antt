-- The laws behind the functions. `Bits` says which 32 bits a pool's scale may have, and `Answers` what exact says.
pub mod Signs
pub mod Bits
mod Zeros
mod Sum
mod Product
pub mod Answers
