pub mod Consumer
