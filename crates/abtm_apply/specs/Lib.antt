pub mod Product
pub mod Ready
