pub mod Heights
pub mod Pinning
pub mod ListedCodes
pub mod Storing
pub mod Keeping
