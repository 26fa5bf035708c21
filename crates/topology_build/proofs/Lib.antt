pub mod EmitLaws
pub mod RowsLaws
pub mod AnswerLaws
