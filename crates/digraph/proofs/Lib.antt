pub mod Marks
pub mod Searching
pub mod Reaching
pub mod Cycles
pub mod Bits
pub mod Closing
