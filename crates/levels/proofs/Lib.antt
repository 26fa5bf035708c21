pub mod LevelLaws
pub mod MarkedLaws
pub mod ClearLaws
