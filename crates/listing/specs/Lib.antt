pub mod Listings
pub mod Puts
pub mod Texts
