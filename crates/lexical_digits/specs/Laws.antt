-- The laws of the traits, and their lemmas: here, since a law of an `impl` can cite only specs/.
pub mod Terms
pub mod Ranges
pub mod Kept
pub mod Place
pub mod Table
