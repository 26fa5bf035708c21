pub mod FigureLaws
pub mod KeepLaws
