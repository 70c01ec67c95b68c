pub mod Short
pub mod Listed
pub mod Tells
