pub mod Splits
pub mod Strays
pub mod Terms
pub mod Questions
pub mod Readings
