pub mod Jacobian
