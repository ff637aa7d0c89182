pub mod Works
pub mod Machines
pub mod Storing
pub mod Named
pub mod Lengths
pub mod Asking
pub mod Addressed
