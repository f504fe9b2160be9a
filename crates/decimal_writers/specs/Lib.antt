pub mod Room
pub mod Text
pub mod Value
pub mod Big
pub mod Fixed
pub mod Places
pub mod Scientific
