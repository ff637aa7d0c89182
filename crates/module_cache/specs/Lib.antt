pub mod Right
pub mod Pinned
pub mod Held
pub mod Counted
pub mod Told
pub mod Found
pub mod FileName
pub mod Pinning
