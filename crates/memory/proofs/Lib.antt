pub mod Placing
pub mod Rows
