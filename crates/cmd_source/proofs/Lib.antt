pub mod Readings
mod Laid
