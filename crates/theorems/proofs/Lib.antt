pub mod Roots
pub mod Demand3
pub mod ByConsumer
pub mod Chain
pub mod Rowdesk
pub mod Faults
