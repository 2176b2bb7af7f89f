pub mod Computed
pub mod Deciding
pub mod Drafting
pub mod Following
pub mod Kept
pub mod Rules
