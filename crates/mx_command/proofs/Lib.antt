pub mod Readings
pub mod Own
pub mod Ended
mod Within
pub mod GreedyLayouts
pub mod Links
pub mod Laid
pub mod Headline
pub mod Modules
pub mod Pairs
pub mod PairHeadline
pub mod JoinHeadline
mod Labels
mod StoppedSources
mod StopsHeadline
mod BestHeadline
mod Premises
