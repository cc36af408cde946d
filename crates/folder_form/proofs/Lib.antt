pub mod OneWalk
pub mod OneReading
pub mod SomeWalk
