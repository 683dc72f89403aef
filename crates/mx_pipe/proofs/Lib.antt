mod Makes
mod Decides
mod Shows
mod Stands
mod Lanes
