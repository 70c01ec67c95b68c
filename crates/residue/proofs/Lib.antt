pub mod Remainders
pub mod Laws
pub mod Folding
pub mod Field
