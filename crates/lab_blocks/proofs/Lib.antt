pub mod Spans
pub mod Shorter
