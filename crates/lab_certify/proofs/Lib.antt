pub mod Items
pub mod Same
pub mod Both
pub mod Sites
pub mod Ready
pub mod Listed
pub mod Verdict
pub mod Unique
