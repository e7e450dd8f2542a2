pub mod Graph
pub mod Unifying
pub mod Memory
