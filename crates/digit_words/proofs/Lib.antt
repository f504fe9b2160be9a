pub mod WordOfDigits
pub mod ShiftedWord
pub mod FrontOfWord
pub mod ThreeDigits
pub mod Joined
pub mod HexadecimalWord
