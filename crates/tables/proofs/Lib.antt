pub mod RowsBack
