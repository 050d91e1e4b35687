pub mod Parts
pub mod Signs
pub mod Points
pub mod Cuts
