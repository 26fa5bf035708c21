pub mod MergeLaws
pub mod WriteLaws
pub mod RowsLaws
pub mod FillLaws
pub mod CallLaws
