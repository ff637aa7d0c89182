pub mod Anyway
