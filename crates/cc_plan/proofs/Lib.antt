mod Divisions
mod Learning
mod Placing
mod Sets
pub mod Zeros
