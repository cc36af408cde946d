pub mod Words
pub mod Marks
pub mod TableFits
pub mod Listed
