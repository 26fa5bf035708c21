pub mod RoomLaws
pub mod BitsLaws
pub mod ReadyLaws
pub mod KeptLaws
pub mod EntryLaws
pub mod FillLaws
pub mod CallLaws
