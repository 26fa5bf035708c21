pub mod CheckLaws
pub mod StepLaws
