pub mod Listing
pub mod Slicing
pub mod LineOrder
pub mod LineGrowth
