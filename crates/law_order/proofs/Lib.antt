pub mod Reorder
pub mod Swap
pub mod Order
pub mod Split
pub mod Words
