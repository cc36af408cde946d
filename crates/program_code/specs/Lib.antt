pub mod Codes
pub mod Locations
