pub mod Comparisons
pub mod Knowing
pub mod Placed
pub mod Places
pub mod Translated
