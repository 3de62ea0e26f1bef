mod Exact
mod Nodes
pub mod Accept
mod Calls
mod Loops
mod Legs
mod Whole
mod Drafts
