pub mod Again
pub mod Numbers
pub mod Outcomes
pub mod Varints
pub mod Whole
