pub mod Normal
pub mod Built
pub mod Laws
