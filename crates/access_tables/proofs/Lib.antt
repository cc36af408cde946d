pub mod Joined
pub mod NodeOrder
pub mod Produced
pub mod Accessed
