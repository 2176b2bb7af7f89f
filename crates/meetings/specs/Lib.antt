pub mod Collisions
pub mod Joined
pub mod Laws
pub mod Meetings
pub mod Settled
pub mod Stays
