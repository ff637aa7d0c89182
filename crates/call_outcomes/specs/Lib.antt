pub mod Results
pub mod Events
pub mod Replies
pub mod Views
