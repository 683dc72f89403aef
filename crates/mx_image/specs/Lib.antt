pub mod Bytes
pub mod Contents
pub mod Files
pub mod Sizes
pub mod Reads
