pub mod Terms
pub mod Symbols
