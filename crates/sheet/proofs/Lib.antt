pub mod Decimals
pub mod Fitting
pub mod Nexts
pub mod Numbers
pub mod Rooms
pub mod Rowing
