pub mod CallEquality
pub mod Equality
pub mod Scripts
