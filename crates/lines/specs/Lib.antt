pub mod Laws
pub mod Lines
pub mod Numbers
pub mod Replies
