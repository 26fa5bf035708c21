pub mod JoinLaws
pub mod ExpandLaws
pub mod CallLaws
