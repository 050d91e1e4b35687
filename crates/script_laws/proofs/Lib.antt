pub mod Back
pub mod Decimals
pub mod Determines
pub mod Items
pub mod Lines
pub mod Marks
pub mod Numbers
pub mod Runs
