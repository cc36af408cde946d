pub mod Adding
pub mod Bits
pub mod Counting
