pub mod DistinctLaws
pub mod SlotLaws
