pub mod Groups
pub mod Integers
pub mod Hexadecimal
pub mod Errors
pub mod Numbers
pub mod Answered
pub mod Exactly
pub mod Written
