pub mod Combine
pub mod Merge
