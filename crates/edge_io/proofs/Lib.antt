pub mod Pieces
pub mod Places
pub mod Slashes
pub mod Entries
pub mod PathTests
