pub mod BitLists
pub mod Shifts
pub mod Bitwise
pub mod Signed
pub mod Operations
pub mod Tables
