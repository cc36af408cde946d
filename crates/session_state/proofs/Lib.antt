pub mod StatementOrder
pub mod Inserting
pub mod Sorting
pub mod Gaining
pub mod Telling
