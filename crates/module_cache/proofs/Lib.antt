pub mod Lists
pub mod Pins
pub mod Kept
pub mod Tallied
pub mod Fetched
pub mod Warmed
