pub mod Scenes
pub mod Objects
pub mod Tables
