pub mod Form
pub mod Parts
pub mod Codes
pub mod ModuleFile
pub mod Laws
pub mod Examples
pub mod Gives
