pub mod Defaults
pub mod Starts
pub mod Calls
