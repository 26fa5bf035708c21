pub mod FillLaws
pub mod CallLaws
pub mod LeftLaws
