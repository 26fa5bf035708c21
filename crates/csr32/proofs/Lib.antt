pub mod FrameLaws
pub mod ScanLaws
pub mod CsrLaws
pub mod SumLaws
pub mod MergedLaws
pub mod MadeLaws
pub mod WindowLaws
