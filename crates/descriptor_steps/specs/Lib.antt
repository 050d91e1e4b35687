pub mod Machine
pub mod Played
pub mod Purposes
pub mod Shared
pub mod Steps
