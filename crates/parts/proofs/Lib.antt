pub mod Laws
pub mod FromFn
pub mod Written
pub mod Registers
