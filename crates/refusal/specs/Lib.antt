pub mod Saying
pub mod Text
