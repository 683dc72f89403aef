pub mod Laws
pub mod Saves
