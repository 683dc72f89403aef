pub mod Schedulers
pub mod PlanFiles
pub mod Planners
pub mod Sources
pub mod Stimuli
pub mod Runs
pub mod Refusals
pub mod Building
