pub mod Clashing
pub mod Counts
pub mod Pairs
pub mod Places
pub mod Stands
