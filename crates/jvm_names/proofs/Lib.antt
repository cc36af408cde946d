pub mod Decided
pub mod InFront
pub mod Arguments
pub mod Made
