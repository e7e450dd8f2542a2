pub mod Terms
pub mod Passing
pub mod Ends
pub mod Views
pub mod Changes
