pub mod Alone
pub mod AsList
pub mod Joined
pub mod NoneAtEnd
pub mod Positions
pub mod Room
pub mod Starts
