pub mod Whole
pub mod Numbering
pub mod NewMembers
