pub mod Number
pub mod Leaf
