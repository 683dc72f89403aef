pub mod Fields
pub mod Requests
pub mod Documents
pub mod Answers
