pub mod Bucketed
pub mod Buckets
pub mod Flats
pub mod Shown
pub mod Words
pub mod Within
