pub mod Rows
pub mod Walk
