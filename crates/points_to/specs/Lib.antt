pub mod Bits
pub mod Items
pub mod Rules
pub mod Meaning
pub mod States
pub mod Indexes
pub mod Solved
pub mod Sizes
