pub mod RowLists
pub mod RowTheorems
pub mod SetCode
pub mod SetMembers
pub mod WorkedOut
pub mod SetText
