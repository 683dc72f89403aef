pub mod StartingWords
pub mod BoardBus
pub mod Digits
pub mod Reading
pub mod Wanted
