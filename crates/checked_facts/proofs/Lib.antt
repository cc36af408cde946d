pub mod Ranges
pub mod Inputs
pub mod Whole
