pub mod NextTakesFirst
pub mod ItemsAndZeros
pub mod NoFlags
pub mod AgreesWithSkip
