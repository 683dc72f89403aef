pub mod EndToEnd
pub mod Laws
