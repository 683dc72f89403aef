pub mod Layout
pub mod Kept
pub mod Overlong
pub mod Addresses
