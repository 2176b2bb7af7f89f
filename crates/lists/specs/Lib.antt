pub mod Kinds
pub mod Lists
pub mod Moves
pub mod Nodes
