pub mod Pack
pub mod Making
