pub mod ZeroRows
