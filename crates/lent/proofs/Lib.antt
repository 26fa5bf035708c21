pub mod ListLaws
pub mod PartLaws
pub mod LentLaws
