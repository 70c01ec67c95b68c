pub mod Lines
pub mod PairLines
pub mod Faults
pub mod Listed
pub mod Room
