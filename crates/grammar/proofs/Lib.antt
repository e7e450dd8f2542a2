pub mod Walks
pub mod Halting
