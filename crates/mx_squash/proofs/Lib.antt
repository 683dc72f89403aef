pub mod Targets
