pub mod Bits
pub mod Word
