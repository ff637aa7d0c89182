pub mod Cause
pub mod Memory
pub mod Pieces
pub mod Streams
