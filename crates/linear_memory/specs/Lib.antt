pub mod Examples
pub mod Numbers
pub mod Pages
pub mod Regions
