pub mod Asked
pub mod Variables
pub mod Signatures
pub mod Rules
pub mod Touched
pub mod ConstraintSystems
