pub mod LocNumbers
pub mod PlacedCalls
pub mod MethodNumbers
pub mod EntryMethods
pub mod GivenVariables
pub mod Answering
