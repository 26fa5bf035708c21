pub mod ZeroLaws
pub mod ValueLaws
