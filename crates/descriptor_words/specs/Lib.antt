pub mod Accesses
pub mod Words
