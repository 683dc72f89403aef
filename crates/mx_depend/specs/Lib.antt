pub mod Independence
pub mod Graphs
