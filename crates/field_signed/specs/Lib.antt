pub mod Signed
pub mod Answer
pub mod OneToOne
