pub mod Places
pub mod Settled
pub mod Kept
pub mod Unfolded
