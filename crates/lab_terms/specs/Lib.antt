pub mod Places
pub mod Slots
pub mod Flow
pub mod Commits
pub mod Verdicts
pub mod Geometries
