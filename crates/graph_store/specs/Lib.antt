pub mod Pass
pub mod Store
pub mod PassGraphs
