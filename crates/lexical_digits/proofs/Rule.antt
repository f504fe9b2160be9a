-- What the role rule keeps: runs, sides, grants, and the steps of a drain.
pub mod Runs
pub mod Drain
pub mod Grants
pub mod Sides
pub mod Supported
pub mod Radixes
