pub mod Terms
pub mod Schedule
