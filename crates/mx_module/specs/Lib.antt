pub mod Terms
pub mod Links
pub mod ExportTable
pub mod Modules
pub mod LinkFaults
pub mod Joined
pub mod ModuleView
