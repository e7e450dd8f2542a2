pub mod Typing
pub mod Heads
pub mod Scopes
pub mod Passes
