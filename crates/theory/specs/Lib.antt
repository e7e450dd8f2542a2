pub mod Closed
pub mod Expansion
pub mod Principal
pub mod Laws
