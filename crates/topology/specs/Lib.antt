pub mod Words
pub mod Calls
pub mod Matrix
