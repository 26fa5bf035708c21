pub mod PlaceLaws
pub mod AddLaws
pub mod RowsLaws
pub mod AnswerLaws
pub mod DemandLaws
