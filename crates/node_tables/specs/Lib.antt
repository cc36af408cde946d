pub mod Segments
pub mod Statements
pub mod Scenes
pub mod Rows
pub mod Limits
pub mod Parts
