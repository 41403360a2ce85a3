pub mod Eight
pub mod Rows
