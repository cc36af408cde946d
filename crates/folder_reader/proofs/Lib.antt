pub mod Kept
pub mod Errors
pub mod Listed
pub mod Turning
pub mod Found
pub mod Both
pub mod Sums
