pub mod Keeping
pub mod Needed
pub mod Turns
pub mod Widened
pub mod Sessions
pub mod Answering
pub mod Desks
pub mod Serving
