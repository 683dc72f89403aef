pub mod Counting
pub mod Listed
pub mod Arrivals
pub mod Visits
pub mod Whole
