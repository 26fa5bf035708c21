pub mod MergeLaws
pub mod WindowLaws
