pub mod Readings
pub mod Rolls
pub mod Filling
pub mod Countdowns
pub mod Keeping
pub mod Places
pub mod Rolled
