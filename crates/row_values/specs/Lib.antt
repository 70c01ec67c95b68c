pub mod RowValue
