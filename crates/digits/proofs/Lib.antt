pub mod ForCallers
pub mod Literals
