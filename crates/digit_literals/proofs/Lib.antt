pub mod ForCallers
pub mod PassedAll
pub mod ListEnds
pub mod EachRead
pub mod Lists
pub mod ByEnds
