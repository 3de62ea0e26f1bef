pub mod Sums
pub mod Costs
pub mod Rules
pub mod Terms
pub mod Grades
pub mod Never
pub mod WorkedOut
