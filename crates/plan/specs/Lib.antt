pub mod Limits
pub mod Faults
pub mod Kinds
pub mod Trees
pub mod Written
pub mod Table
pub mod Params
pub mod Plans
