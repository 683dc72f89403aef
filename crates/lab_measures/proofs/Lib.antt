pub mod Counts
pub mod Leads
pub mod Bins
pub mod Paired
pub mod Joined
pub mod Beside
pub mod Noted
pub mod Quiet
