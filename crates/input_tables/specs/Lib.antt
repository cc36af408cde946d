pub mod Control
pub mod Scenes
pub mod Effects
pub mod Places
pub mod Uses
pub mod Edges
pub mod Exits
