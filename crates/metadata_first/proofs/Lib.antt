pub mod SumLaws
pub mod DotLaws
pub mod ActiveLaws
pub mod StoreLaws
pub mod CallLaws
