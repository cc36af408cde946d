pub mod Numbers
pub mod Outcomes
pub mod Agree
pub mod Loops
pub mod Chains
