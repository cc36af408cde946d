pub mod Runs
pub mod OneReach
pub mod Slots
pub mod Members
pub mod OneBody
