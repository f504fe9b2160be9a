pub mod Tries
pub mod Positions
pub mod JsonTexts
pub mod Json
pub mod Integers
