pub mod Shows
pub mod Fields
pub mod Steps
