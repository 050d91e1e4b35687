pub mod Driving
pub mod Outcome
