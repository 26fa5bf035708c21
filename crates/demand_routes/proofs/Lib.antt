pub mod RouteLaws
pub mod AllLaws
pub mod AgreeLaws
pub mod ExactLaws
pub mod EndLaws
