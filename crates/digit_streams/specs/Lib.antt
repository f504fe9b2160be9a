pub mod Enclosed
pub mod Errors
pub mod Folds
pub mod Streams
pub mod Windows
