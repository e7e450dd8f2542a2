pub mod Mapped
pub mod Solved
pub mod Wholes
pub mod Refusing
pub mod Renamed
