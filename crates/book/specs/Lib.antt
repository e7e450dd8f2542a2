pub mod Faults
pub mod Standing
pub mod Replies
pub mod Memories
pub mod Judging
pub mod History
pub mod Dealing
