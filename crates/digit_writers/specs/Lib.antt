pub mod Digits
pub mod Written
pub mod Valid
pub mod Layouts
pub mod Amounts
pub mod Lists
