pub mod Words
pub mod Operands
pub mod Commands
pub mod Lines
pub mod Keywords
pub mod Steps
