pub mod Command
pub mod Names
pub mod Scripts
pub mod Asking
