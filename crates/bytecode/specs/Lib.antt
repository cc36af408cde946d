pub mod Parts
pub mod Starts
