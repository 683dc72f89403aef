pub mod Soak
pub mod Terms
