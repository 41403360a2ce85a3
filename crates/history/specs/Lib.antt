pub mod Parts
pub mod Columns
pub mod Steps
