pub mod Shown
pub mod AtNode
pub mod Follows
pub mod InRun
