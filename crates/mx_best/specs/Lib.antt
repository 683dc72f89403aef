pub mod Terms
pub mod Shortest
pub mod Visits
