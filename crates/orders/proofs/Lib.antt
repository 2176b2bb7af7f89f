pub mod Back
pub mod Bodies
pub mod Buffers
pub mod Genuine
pub mod Lengths
pub mod Sound
pub mod Zipped
