pub mod Answers
pub mod Examples
pub mod Forms
pub mod Messages
pub mod Plain
pub mod Protobuf
pub mod Stops
pub mod Texts
