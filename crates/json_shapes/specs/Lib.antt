pub mod Answers
pub mod Examples
pub mod Json
pub mod Shapes
pub mod Values
