pub mod Runs
pub mod Matches
pub mod Laws
pub mod Results
