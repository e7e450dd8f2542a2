pub mod Grow
pub mod Reading
pub mod Firsts
pub mod Instances
