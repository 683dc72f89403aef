pub mod Contents
pub mod Data
pub mod RequestFile
