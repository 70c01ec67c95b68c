pub mod Model
pub mod Rows
pub mod Reads
pub mod Moment
pub mod Sound
