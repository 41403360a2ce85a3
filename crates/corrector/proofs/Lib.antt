pub mod Shared
pub mod Iterated
pub mod Judged
