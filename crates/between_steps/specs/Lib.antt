pub mod Begin
pub mod Start
pub mod Replies
