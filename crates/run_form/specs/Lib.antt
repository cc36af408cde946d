pub mod Said
pub mod Outputs
pub mod Runs
pub mod Endings
