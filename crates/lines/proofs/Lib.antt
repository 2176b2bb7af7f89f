pub mod Digits
mod Taken
mod Spelling
