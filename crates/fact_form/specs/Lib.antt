pub mod EntryCalls
pub mod NodeNumbers
pub mod EdgeNumbers
pub mod EffectNumbers
pub mod ValueNumbers
pub mod FactTables
pub mod FactLimits
pub mod Handed
