pub mod Grading
pub mod Least
pub mod Nodes
pub mod Laws
pub mod Examples
