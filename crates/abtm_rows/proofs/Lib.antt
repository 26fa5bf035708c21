pub mod RowsLaws
