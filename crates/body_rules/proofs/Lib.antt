pub mod Coded
pub mod Octets
pub mod OneLine
