mod Pivots
mod Sizes
pub mod Usable
