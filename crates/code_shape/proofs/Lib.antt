pub mod Orders
pub mod Covering
pub mod Covered
pub mod Searching
pub mod Fitting
pub mod Listing
pub mod Pointing
pub mod Whole
