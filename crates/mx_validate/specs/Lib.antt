pub mod Padded
pub mod Validity
