pub mod Texts
pub mod Said
pub mod Hash
pub mod Verified
pub mod Checks
pub mod Printed
pub mod Laws
pub mod Filed
