pub mod Spans
pub mod Binders
pub mod Standing
pub mod Typings
pub mod Arrows
pub mod Answering
