pub mod Numbers
pub mod Zero
