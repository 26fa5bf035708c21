pub mod Levels
pub mod Ranks
