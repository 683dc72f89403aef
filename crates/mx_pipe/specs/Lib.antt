pub mod Terms
pub mod Latched
pub mod Made
pub mod Courses
pub mod Kept
pub mod Fields
