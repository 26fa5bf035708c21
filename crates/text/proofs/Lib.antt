pub mod NumberLaws
pub mod DecimalLaws
