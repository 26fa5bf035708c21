pub mod ClimbLaws
pub mod RuleLaws
pub mod FastLaws
