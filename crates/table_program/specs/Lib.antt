pub mod Listing
pub mod Means
