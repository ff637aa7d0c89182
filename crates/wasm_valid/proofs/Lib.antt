pub mod Taking
pub mod Labels
pub mod Stepping
pub mod Importing
pub mod Passing
pub mod BodyList
pub mod Halves
pub mod Named
