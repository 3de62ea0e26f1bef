pub mod Names
pub mod Binders
pub mod Listings
