pub mod Float
pub mod Sign
pub mod Order
