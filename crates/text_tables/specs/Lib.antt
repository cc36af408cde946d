pub mod Found
pub mod SiteTexts
pub mod SiteNames
pub mod MethodLines
pub mod LineGroups
