pub mod Bounded
pub mod Calls
pub mod Heaps
pub mod Laws
pub mod Rows
