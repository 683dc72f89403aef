mod Fetches
mod Counts
mod Runs
mod Rows
