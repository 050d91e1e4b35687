pub mod Invariant
pub mod Knowledge
pub mod Left
pub mod Linearization
pub mod Meaning
pub mod Names
