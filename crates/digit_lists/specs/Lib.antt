pub mod Empty
pub mod Errors
pub mod Lists
pub mod Optional
