pub mod Adding
pub mod Leveling
pub mod Slicing
