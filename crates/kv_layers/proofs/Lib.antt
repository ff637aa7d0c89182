pub mod Keys
pub mod Ranges
pub mod Maps
pub mod Changes
pub mod Plains
pub mod Keeping
pub mod Merging
