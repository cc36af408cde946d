pub mod Edges
pub mod Pairs
pub mod Counts
pub mod Marks
pub mod States
pub mod Widened
