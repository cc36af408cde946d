pub mod Faults
pub mod Reads
pub mod Files
pub mod Plans
pub mod Paths
pub mod Memory
