pub mod Classes
pub mod Statements
pub mod Programs
pub mod Refusals
