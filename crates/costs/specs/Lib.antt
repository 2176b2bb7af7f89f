pub mod Figures
pub mod Kinds
pub mod Laws
pub mod Layers
pub mod Totals
