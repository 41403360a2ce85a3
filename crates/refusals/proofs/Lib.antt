pub mod Entries
pub mod Decides
pub mod FirstStep
pub mod Rows
pub mod Sections
pub mod Table
pub mod Accepted
pub mod Steps
