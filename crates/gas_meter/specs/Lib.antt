pub mod Costs
pub mod Gas
pub mod Ranges
