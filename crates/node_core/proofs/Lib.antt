pub mod NamedCodes
pub mod Looks
pub mod Answered
