pub mod Ledger
pub mod Calls
pub mod Submitting
pub mod Looking
pub mod Steps
pub mod Fed
