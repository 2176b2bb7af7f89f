pub mod Agreeing
pub mod Carrying
pub mod Executing
pub mod Guarding
pub mod Listing
pub mod Opening
pub mod Sounding
pub mod Timing
