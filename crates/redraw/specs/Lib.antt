pub mod Costs
pub mod Faults
pub mod Laws
pub mod Nodes
pub mod Orders
pub mod Redraws
