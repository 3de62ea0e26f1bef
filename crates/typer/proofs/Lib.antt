mod Types
mod Scopes
pub mod Views
mod Walking
mod Legs
mod Accepted
