pub mod Merge
pub mod Window
