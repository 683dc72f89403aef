pub mod Counts
pub mod Laid
pub mod Listed
pub mod Means
pub mod Reported
pub mod Told
pub mod Ends
