pub mod Verdict
pub mod Spot
pub mod Report
