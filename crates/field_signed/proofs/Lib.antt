pub mod Laws
pub mod OneToOne
