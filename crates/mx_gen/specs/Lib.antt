pub mod Drafts
pub mod Generated
pub mod DraftView
pub mod Sound
pub mod Board
pub mod Near
