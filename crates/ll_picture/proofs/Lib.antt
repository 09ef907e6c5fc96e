pub mod Drawn
pub mod Fronts
