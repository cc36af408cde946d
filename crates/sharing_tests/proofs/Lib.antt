pub mod SmallFacts
pub mod SmallRow
pub mod PartNodes
pub mod PartFacts
pub mod PartInput
