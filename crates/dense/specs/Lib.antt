pub mod Factor
pub mod Solve
