pub mod Refusals
pub mod Protocols
pub mod Replied
