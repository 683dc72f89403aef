pub mod Bounds
pub mod Dependences
pub mod Lengths
pub mod Ran
