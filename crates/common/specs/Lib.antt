pub mod Record
pub mod Limits
pub mod Rules
pub mod Initial
pub mod Layout
pub mod SessionWords
pub mod State
pub mod Ranges
