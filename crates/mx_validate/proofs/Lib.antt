pub mod Listed
pub mod PaddedLists
pub mod ValidParts
