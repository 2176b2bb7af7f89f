pub mod Costs
pub mod Drafts
pub mod Plans
pub mod Runs
pub mod Table
