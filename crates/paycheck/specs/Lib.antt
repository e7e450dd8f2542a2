pub mod Faults
pub mod Replies
