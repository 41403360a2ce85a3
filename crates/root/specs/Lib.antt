pub mod Root
pub mod Largest
