pub mod Calls
pub mod Parts
pub mod Running
pub mod Stages
pub mod Steps
