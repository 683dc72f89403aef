pub mod Splits
pub mod ExistsBlocks
pub mod UniqueBlocks
pub mod LeadersBegin
