pub mod Returns
pub mod Source
