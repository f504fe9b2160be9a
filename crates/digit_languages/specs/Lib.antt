pub mod Words
pub mod Literals
pub mod Follows
pub mod Moves
pub mod Zeros
