mod Decided
mod Requests
mod Asked
mod Folders
mod Independent
