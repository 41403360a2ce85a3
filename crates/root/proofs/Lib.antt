pub mod Laws
pub mod Cases
pub mod Examples
pub mod Unsigned
pub mod Patterns
pub mod Monotone
pub mod Room
