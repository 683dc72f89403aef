pub mod Fewest
pub mod Searching
pub mod ValidDecided
pub mod Visited
