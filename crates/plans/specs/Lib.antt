pub mod Kept
pub mod Opening
pub mod Refusals
pub mod Shown
