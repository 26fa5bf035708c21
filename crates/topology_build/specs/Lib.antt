pub mod Build
pub mod Making
