pub mod HeldLaws
pub mod OnlyLaws
pub mod ZeroSumLaws
pub mod PackedLaws
pub mod RestrictingLaws
pub mod TilingLaws
pub mod Demand3
pub mod InstanceLaws
