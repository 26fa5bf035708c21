pub mod MaskLaws
pub mod CallLaws
