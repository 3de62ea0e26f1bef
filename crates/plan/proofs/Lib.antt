pub mod Fronts
pub mod Stacks
pub mod Ends
pub mod Walks
pub mod More
pub mod Kids
pub mod Plans
pub mod Types
