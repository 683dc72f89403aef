pub mod Fronts
pub mod Capped
