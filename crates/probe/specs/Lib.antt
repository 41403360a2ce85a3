pub mod Probe
pub mod Leaves
pub mod Lent
pub mod Left
