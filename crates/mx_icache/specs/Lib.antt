pub mod Residency
pub mod Places
pub mod LineSets
pub mod PlainSets
