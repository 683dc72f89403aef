pub mod Simulated
pub mod Machines
