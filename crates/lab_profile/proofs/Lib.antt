pub mod Sums
pub mod Counted
pub mod Arrived
pub mod Totals
pub mod Charged
pub mod Still
pub mod Gathered
pub mod EachColumn
