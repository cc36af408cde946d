pub mod Entries
pub mod Looking
pub mod Refusals
pub mod ByNumber
