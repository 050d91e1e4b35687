pub mod Putting
pub mod Lengths
pub mod Joining
pub mod Casts
