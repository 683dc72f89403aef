pub mod Ends
pub mod Items
pub mod Leaders
pub mod Splitting
