pub mod Faults
pub mod Questions
pub mod Answers
pub mod Nodes
pub mod Parts
pub mod Derivations
