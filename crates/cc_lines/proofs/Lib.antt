pub mod Cuts
pub mod Extends
