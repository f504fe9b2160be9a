pub mod Rule
pub mod ByteSet
pub mod Looks
pub mod Fields
pub mod Calls
