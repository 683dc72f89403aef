mod Cycles
mod Held
mod Ways
mod Parts
mod Users
