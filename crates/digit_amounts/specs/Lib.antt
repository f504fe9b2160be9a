pub mod Scaled
pub mod Groups
pub mod Prices
pub mod Moves
