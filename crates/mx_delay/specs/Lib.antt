pub mod Delay
pub mod Clean
pub mod Executions
pub mod Prefixes
pub mod Laws
