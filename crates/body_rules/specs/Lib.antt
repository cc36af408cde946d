pub mod Methods
pub mod Refused
