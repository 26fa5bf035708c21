pub mod TermLaws
pub mod BlockLaws
pub mod FullLaws
pub mod RowLaws
pub mod ProductLaws
