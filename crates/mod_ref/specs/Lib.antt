pub mod Gains
pub mod Direct
pub mod Locations
pub mod Rows
pub mod Traced
pub mod Touched
