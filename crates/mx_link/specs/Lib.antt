pub mod Terms
pub mod Origins
pub mod Words
pub mod Linked
pub mod Parts
pub mod Laid
pub mod Gathered
