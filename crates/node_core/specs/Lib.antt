pub mod Plain
pub mod Steps
pub mod View
pub mod Events
pub mod Laws
pub mod Examples
