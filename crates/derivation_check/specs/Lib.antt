pub mod Prefixes
pub mod Steps
pub mod Checking
pub mod Faults
pub mod Arrows
