pub mod Cfode
pub mod Table
pub mod Published
