pub mod Bits
pub mod Courses
pub mod Depths
pub mod Members
pub mod Optimal
pub mod Steps
pub mod Weights
