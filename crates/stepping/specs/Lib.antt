pub mod Log
pub mod Bench
pub mod History
pub mod Runs
