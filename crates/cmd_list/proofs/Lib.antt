pub mod Listed
pub mod Appended
