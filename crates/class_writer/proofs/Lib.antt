pub mod Lengths
pub mod Fit
pub mod PoolDecided
pub mod ClassDecided
pub mod Neighbours
