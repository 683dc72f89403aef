pub mod Masks
pub mod Memories
pub mod Pointers
