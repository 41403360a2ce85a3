pub mod Tolerance
pub mod Norm
pub mod Maxima
pub mod Weights
pub mod FirstStep
