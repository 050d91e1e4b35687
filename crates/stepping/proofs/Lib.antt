pub mod Logs
pub mod Passes
pub mod Kept
pub mod Told
pub mod Law
pub mod Timely
pub mod Space
pub mod History
