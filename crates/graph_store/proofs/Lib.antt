pub mod Slots
pub mod Found
pub mod Recovered
pub mod OneGraph
