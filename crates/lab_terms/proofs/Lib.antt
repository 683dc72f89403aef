mod Counting
mod Walks
