pub mod Calls
pub mod Meaning
pub mod Plain
pub mod Refusals
pub mod Threads
