pub mod Places
pub mod Rule
pub mod Memo
pub mod MemoRows
