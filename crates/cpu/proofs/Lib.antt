pub mod Whole
pub mod Buffer
