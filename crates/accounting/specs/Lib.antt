pub mod Accounting
pub mod Examples
