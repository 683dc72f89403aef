pub mod Going
pub mod Fetches
pub mod OneTurn
mod Moves
pub mod Steps
pub mod Stands
pub mod Table
