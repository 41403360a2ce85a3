pub mod States
pub mod Fields
pub mod Names
pub mod Session
pub mod WordRanges
pub mod InRange
