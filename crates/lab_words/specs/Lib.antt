pub mod Naming
pub mod Tables
pub mod Texts
pub mod Assembling
pub mod Terms
