pub mod Calls
pub mod Drives
pub mod Outcomes
pub mod Scripts
