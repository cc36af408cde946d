pub mod Starts
pub mod Widths
pub mod Apart
pub mod Moves
pub mod Knowing
