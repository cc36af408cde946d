pub mod Assembling
pub mod Direct
pub mod Keeping
pub mod Listing
pub mod Numbering
