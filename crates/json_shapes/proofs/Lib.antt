pub mod Items
pub mod Members
pub mod Texts
pub mod Objects
pub mod Whole
