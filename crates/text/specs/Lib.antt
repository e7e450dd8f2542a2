pub mod Bytes
pub mod Words
pub mod Tokens
pub mod Faults
pub mod Lexing
