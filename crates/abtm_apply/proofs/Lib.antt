pub mod SumLaws
pub mod TileLaws
pub mod RowLaws
pub mod ProductLaws
