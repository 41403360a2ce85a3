pub mod Alive
pub mod Replies
pub mod Pass
pub mod Step
pub mod Start
pub mod Follows
pub mod Ends
pub mod Kept
