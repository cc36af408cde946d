pub mod Checks
mod Apart
mod Outputs
mod Wanted
mod Parses
