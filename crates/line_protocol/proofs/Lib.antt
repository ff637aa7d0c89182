pub mod Feeds
pub mod Skips
pub mod Handing
pub mod Cuts
pub mod Objects
pub mod Whole
pub mod Blocks
