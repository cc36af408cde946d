pub mod Checks
pub mod Rising
pub mod Parts
pub mod Whole
pub mod InputParts
