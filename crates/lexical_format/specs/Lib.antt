pub mod Digits
pub mod Word
pub mod Builder
pub mod Words
