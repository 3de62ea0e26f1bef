pub mod Steps
pub mod Kept
pub mod Bounded
pub mod Follows
pub mod Forms
