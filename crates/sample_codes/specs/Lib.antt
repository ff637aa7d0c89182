pub mod Answers
pub mod Samples
