pub mod Firsts
pub mod Holdings
pub mod Orders
pub mod Parts
pub mod Rows
pub mod Sifts
pub mod Sorts
