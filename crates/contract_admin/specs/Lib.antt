pub mod Lawful
pub mod Administration
pub mod Refusals
pub mod Effects
pub mod Laws
pub mod Examples
