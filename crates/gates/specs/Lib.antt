pub mod Lines
pub mod Gates
