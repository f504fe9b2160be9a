pub mod DrainFromStart
pub mod FirstLine
pub mod FirstMark
pub mod Flags
pub mod Numbers
pub mod Reading
pub mod Spelled
