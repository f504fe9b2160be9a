pub mod Eight
pub mod Hexadecimal
pub mod Three
