pub mod Loops
pub mod Sign
pub mod Spaced
