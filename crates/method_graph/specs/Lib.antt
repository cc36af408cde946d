pub mod Flows
pub mod Accesses
pub mod Heaps
pub mod Edges
pub mod Own
