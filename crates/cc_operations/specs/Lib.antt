pub mod Comparisons
pub mod Computing
pub mod Counts
pub mod Numbers
pub mod Operations
