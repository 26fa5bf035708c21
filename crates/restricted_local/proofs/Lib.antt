pub mod RegionLaws
pub mod CountLaws
pub mod RowsLaws
pub mod CheckLaws
