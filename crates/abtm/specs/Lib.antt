pub mod Tiles
pub mod Calls
pub mod Matrix
pub mod Row
