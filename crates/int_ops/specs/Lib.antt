pub mod Bits
pub mod Examples
pub mod Integers
pub mod Numerics
