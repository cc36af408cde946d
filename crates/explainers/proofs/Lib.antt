pub mod SiteOrder
pub mod Bringings
