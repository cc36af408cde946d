pub mod Sequence
pub mod Lines
pub mod Plain
