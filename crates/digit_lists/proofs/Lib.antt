pub mod AtEnd
pub mod FormEnd
pub mod Holding
