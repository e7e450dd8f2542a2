mod Marks
pub mod Exits
pub mod ByteFacts
mod Spaces
pub mod Scanning
pub mod Ahead
