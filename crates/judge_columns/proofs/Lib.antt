pub mod Rules
pub mod Counts
pub mod Runs
pub mod Told
