pub mod ShortNumber
pub mod Spelling
pub mod Shortest
pub mod Samples
