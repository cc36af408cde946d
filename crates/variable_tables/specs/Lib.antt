pub mod Numbers
pub mod Growth
pub mod Statements
pub mod Operands
pub mod Tables
pub mod Arguments
pub mod Members
pub mod LookUps
