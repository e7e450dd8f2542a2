pub mod Writes
pub mod Memory
pub mod Merges
pub mod Merging
