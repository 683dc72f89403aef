pub mod Trace
pub mod Report
pub mod Driving
pub mod Cursor
