pub mod Verdict
pub mod Iterate
