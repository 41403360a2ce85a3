pub mod Within
pub mod Inside
pub mod Lengths
