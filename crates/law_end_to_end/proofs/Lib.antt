pub mod Meanings
pub mod Composed
pub mod Registers
pub mod Accepted
