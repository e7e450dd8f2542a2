pub mod Places
pub mod Shapes
pub mod Tables
pub mod Asking
pub mod Walk
pub mod Growing
pub mod Joining
pub mod Slots
