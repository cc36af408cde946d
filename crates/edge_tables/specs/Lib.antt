pub mod Rows
pub mod Scenes
pub mod Ends
pub mod Outside
pub mod Links
pub mod Calls
pub mod Again
pub mod Table
