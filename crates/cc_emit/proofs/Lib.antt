pub mod Adding
pub mod Images
pub mod More
pub mod Overlay
