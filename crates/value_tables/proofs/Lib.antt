pub mod Within
pub mod Gathered
pub mod SiteOrder
pub mod Called
pub mod Joined
pub mod OfPoints
pub mod Tabled
