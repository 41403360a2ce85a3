pub mod PassWithin
pub mod PassInside
