pub mod Refusal
pub mod Start
pub mod FirstStep
pub mod Rows
pub mod Table
