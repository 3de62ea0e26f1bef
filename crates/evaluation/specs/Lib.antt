pub mod Bounds
pub mod Flight
pub mod Laws
pub mod Examples
