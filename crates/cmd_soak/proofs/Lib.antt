pub mod Multiples
pub mod Steps
pub mod Layouts
pub mod Reach
