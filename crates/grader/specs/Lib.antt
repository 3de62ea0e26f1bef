pub mod Stack
pub mod Walk
pub mod Faults
pub mod Grades
pub mod Stores
