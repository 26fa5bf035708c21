pub mod Expand
