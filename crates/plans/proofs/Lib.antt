pub mod Numbered
pub mod Opened
