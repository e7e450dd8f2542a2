pub mod Firsts
pub mod Names
pub mod Faults
pub mod Reading
pub mod Parsing
