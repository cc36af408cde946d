pub mod Marks
pub mod Steps
pub mod Needs
pub mod Over
pub mod Walks
pub mod Calls
