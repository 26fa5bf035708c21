pub mod Answer
pub mod Table
pub mod Domain
pub mod Floats
