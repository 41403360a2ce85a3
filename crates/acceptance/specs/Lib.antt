pub mod Size
pub mod Family
pub mod Order
pub mod Accept
