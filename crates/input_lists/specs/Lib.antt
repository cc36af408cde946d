pub mod Scenes
pub mod Inputs
