pub mod Splitting
pub mod Taking
pub mod Trimming
pub mod Beginning
