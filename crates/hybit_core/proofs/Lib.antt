pub mod BoolLaws
pub mod AnswerLaws
pub mod FloatLaws
pub mod SumLaws
pub mod HandedLaws
