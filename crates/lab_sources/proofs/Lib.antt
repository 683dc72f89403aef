pub mod Links
pub mod TooFar
pub mod Asked
pub mod Failures
pub mod Faulty
