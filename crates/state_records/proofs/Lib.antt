pub mod Found
pub mod Changing
