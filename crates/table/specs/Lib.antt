pub mod Nodes
pub mod Rows
pub mod WellFormed
pub mod Entries
pub mod View
pub mod Places
pub mod Filed
