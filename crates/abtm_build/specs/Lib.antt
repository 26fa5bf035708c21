pub mod Build
pub mod Window
pub mod Written
