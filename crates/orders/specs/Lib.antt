pub mod File
pub mod Plans
pub mod Reading
pub mod RoundTrip
pub mod Waits
pub mod Worked
