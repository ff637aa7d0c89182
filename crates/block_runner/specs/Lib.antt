pub mod Opening
pub mod Answers
pub mod Reads
pub mod Crediting
pub mod Delivering
pub mod Examples
