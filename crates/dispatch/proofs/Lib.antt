pub mod Arriving
pub mod Carrying
pub mod Doing
pub mod Emptying
pub mod Sounding
pub mod Standing
