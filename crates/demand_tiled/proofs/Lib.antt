pub mod NumberLaws
pub mod ExactLaws
pub mod EndLaws
