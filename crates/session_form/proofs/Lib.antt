pub mod OneAnswer
pub mod OneScript
pub mod OfFacts
pub mod SomeLines
pub mod SomePlaces
pub mod Orders
pub mod Candidates
pub mod SomeAnswer
