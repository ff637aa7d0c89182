pub mod Addressing
pub mod Grouping
pub mod Closing
pub mod Lettering
pub mod Joining
pub mod Ungrouping
pub mod Writing
pub mod Recognizing
