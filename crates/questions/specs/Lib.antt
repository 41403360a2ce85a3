pub mod Turns
pub mod Begin
pub mod Requires
