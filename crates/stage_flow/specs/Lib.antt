pub mod Stage
