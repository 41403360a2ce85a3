pub mod Next
pub mod Host
