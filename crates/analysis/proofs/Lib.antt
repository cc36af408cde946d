mod Listing
pub mod Given
mod Counting
mod Trying
pub mod Accepting
mod Loading
