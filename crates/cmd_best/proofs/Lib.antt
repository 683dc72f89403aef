pub mod Blocks
pub mod Plans
