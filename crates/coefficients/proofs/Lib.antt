pub mod Examples
pub mod Test
pub mod Product
pub mod Published
pub mod Setup
pub mod Table
