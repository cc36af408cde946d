pub mod Sizes
pub mod Spelled
pub mod Numbers
pub mod Names
pub mod Tests
