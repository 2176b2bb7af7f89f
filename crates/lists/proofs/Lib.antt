pub mod Layers
pub mod Placing
pub mod Stacked
