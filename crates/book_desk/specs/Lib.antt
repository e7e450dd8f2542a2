pub mod Filing
pub mod Represented
pub mod Desks
