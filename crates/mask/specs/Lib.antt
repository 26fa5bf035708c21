pub mod Mask
pub mod Calls
pub mod Dof
