pub mod Prefixes
pub mod Numbered
