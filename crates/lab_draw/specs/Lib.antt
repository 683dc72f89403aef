pub mod Cells
pub mod Frames
pub mod Stages
pub mod Rows
pub mod Coming
pub mod Ways
