pub mod Starts
pub mod Points
pub mod Frames
pub mod Facts
pub mod Methods
