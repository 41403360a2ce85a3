pub mod Snapshot
pub mod Header
pub mod Evaluate
pub mod Fraction
pub mod Published
pub mod Refused
pub mod Rounding
