pub mod Report
pub mod RunRules
