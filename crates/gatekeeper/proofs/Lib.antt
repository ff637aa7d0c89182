pub mod Named
pub mod Each
pub mod Judged
pub mod Taken
pub mod Fetched
