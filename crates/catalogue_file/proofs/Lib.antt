pub mod Ranges
pub mod Places
pub mod Nodes
pub mod Lengths
pub mod Empty
pub mod Framed
