pub mod Over
mod Arrows
