pub mod Once
pub mod Merging
pub mod Matching
pub mod Deciding
pub mod Slots
pub mod Steps
