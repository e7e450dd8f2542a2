pub mod Parts
pub mod Reading
pub mod Meaning
pub mod Rename
