pub mod Beginning
pub mod Places
pub mod Carrying
pub mod Spreading
pub mod Order
pub mod Windows
pub mod Tables
pub mod Holding
