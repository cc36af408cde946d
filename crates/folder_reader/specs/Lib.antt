pub mod Hosts
pub mod Below
pub mod Folders
pub mod Turns
