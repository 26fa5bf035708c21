pub mod SumLaws
pub mod RowLaws
pub mod CallLaws
