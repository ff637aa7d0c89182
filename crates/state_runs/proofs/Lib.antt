pub mod Keys
pub mod Lists
pub mod Laid
pub mod Places
pub mod Copying
pub mod Pushed
pub mod Maps
pub mod Next
