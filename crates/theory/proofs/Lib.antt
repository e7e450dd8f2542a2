pub mod Types
pub mod Expansions
pub mod Kept
pub mod Principals
