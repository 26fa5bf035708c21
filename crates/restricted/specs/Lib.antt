pub mod Restricted
pub mod Local
