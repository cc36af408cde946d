pub mod Tables
pub mod OneLine
