pub mod KindLaws
pub mod PlaceLaws
