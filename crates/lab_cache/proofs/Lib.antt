pub mod Machine
mod Fetches
mod Ones
mod Visits
mod SetSteps
mod CacheSteps
mod Known
mod Going
mod Groups
