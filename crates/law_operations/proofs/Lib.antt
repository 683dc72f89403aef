pub mod Bits
pub mod Steps
pub mod Operations
pub mod Comparisons
pub mod Rest
pub mod Numbers
pub mod Branches
pub mod Computing
