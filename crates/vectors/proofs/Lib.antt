pub mod Laws
pub mod Largest
pub mod Maxima
pub mod Examples
