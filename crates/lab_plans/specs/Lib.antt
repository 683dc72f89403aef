pub mod Terms
pub mod Rejections
pub mod Copies
pub mod Verdicts
pub mod Linking
pub mod Figures
pub mod Planned
pub mod Runs
