pub mod Yielded
pub mod History
