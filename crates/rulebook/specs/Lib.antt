pub mod Rule
pub mod Kind
pub mod Words
pub mod Rulebook
pub mod Plain
