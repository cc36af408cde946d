pub mod Codes
pub mod Covers
pub mod Searches
pub mod Listed
pub mod Pointed
