pub mod Prefixes
pub mod Firsts
pub mod Storages
pub mod Nexts
pub mod Charges
pub mod Steps
pub mod Advances
pub mod Typed
