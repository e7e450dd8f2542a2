pub mod Names
pub mod Entries
pub mod Table
pub mod Lawfulness
