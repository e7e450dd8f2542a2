pub mod Instances
pub mod Told
pub mod Copies
