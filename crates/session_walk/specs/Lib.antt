pub mod Seen
pub mod Known
pub mod Knowledge
pub mod Missing
