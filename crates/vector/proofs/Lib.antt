pub mod Natural
pub mod Plainly
pub mod Rows
pub mod Preparing
pub mod Tasks
