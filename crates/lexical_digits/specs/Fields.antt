-- What the private fields of a `Bytes` stand for. No public clause names these words.
pub mod Tally
pub mod Shortcuts
pub mod Bytes
