pub mod Values
pub mod Laws
pub mod History
