pub mod Advancing
pub mod Givings
pub mod Machines
pub mod Turns
pub mod Works
