pub mod Ahead
pub mod Digits
pub mod Dues
pub mod Laws
pub mod Sheets
pub mod Written
