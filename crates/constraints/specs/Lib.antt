pub mod Programs
pub mod Places
pub mod Initializers
pub mod Calls
pub mod Bodies
pub mod Touches
pub mod Parts
pub mod Whole
