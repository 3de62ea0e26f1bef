pub mod Typing
pub mod Walk
pub mod Levels
pub mod Depths
pub mod Accepted
