pub mod Numerals
mod Table
