pub mod Store
pub mod Dot
pub mod Matrix
