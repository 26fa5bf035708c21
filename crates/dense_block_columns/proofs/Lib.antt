pub mod KeyLaws
pub mod ExpandLaws
pub mod BandLaws
pub mod ColumnsLaws
pub mod FillLaws
pub mod AnswerLaws
