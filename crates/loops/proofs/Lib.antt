pub mod For
pub mod Stores
pub mod Part
pub mod Split
pub mod Test
