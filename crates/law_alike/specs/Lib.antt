pub mod Alike
pub mod Users
