pub mod Bytes
pub mod Fields
pub mod Laws
pub mod Layout
pub mod Rules
pub mod Views
pub mod Worked
