pub mod Misses
pub mod Visits
pub mod Sets
pub mod Quick
pub mod Alike
pub mod All
