pub mod Given
pub mod Fewer
pub mod Measures
pub mod Going
