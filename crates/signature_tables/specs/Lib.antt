pub mod Pairs
pub mod TextPairs
pub mod Selections
pub mod Programs
pub mod Statements
pub mod Naming
