pub mod Places
pub mod States
pub mod Answers
pub mod Scripts
