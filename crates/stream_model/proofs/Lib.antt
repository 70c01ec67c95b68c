pub mod Laws
pub mod Steps
pub mod Onward
pub mod Fed
pub mod AnyReads
pub mod Blocks
pub mod Printed
pub mod Moments
