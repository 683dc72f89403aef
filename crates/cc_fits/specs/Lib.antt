pub mod Fits
pub mod Translations
