pub mod Encoded
pub mod Exact
pub mod Fields
pub mod Judged
pub mod Paths
pub mod Refused
pub mod Rows
