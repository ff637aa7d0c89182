pub mod Gives
pub mod CursorPlace
pub mod Blocks
pub mod Answers
