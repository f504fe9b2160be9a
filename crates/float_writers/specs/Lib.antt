pub mod Decimals
pub mod Grid
pub mod Parts
pub mod Write
