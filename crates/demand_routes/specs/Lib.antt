pub mod Routes
pub mod Agree
