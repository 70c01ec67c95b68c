pub mod Parts
pub mod Ctx
