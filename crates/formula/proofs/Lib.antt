mod Writing
mod Scopes
mod Knowing
mod Tokens
mod Signs
mod Firsts
pub mod Steps
mod Faulting
mod Covering
pub mod Wholes
mod Rooms
