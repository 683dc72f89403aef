mod Fetched
mod Shown
mod Cells
mod Recorded
