pub mod Decisions
pub mod Laws
pub mod Questions
pub mod Reaching
pub mod Single
pub mod Steps
