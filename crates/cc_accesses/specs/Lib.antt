pub mod Accesses
pub mod Loads
pub mod Places
pub mod Stores
pub mod Unaligned
