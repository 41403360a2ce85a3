pub mod Unique
pub mod Sign
pub mod Bits
pub mod Literals
pub mod Order
