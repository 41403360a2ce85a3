pub mod Sqrt
pub mod Rounded
