pub mod Reads
pub mod Table
pub mod Work
pub mod Listing
pub mod Copies
pub mod Lent
