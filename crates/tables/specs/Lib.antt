pub mod TreeCheck
pub mod Walk
pub mod Refusals
pub mod Leaves
pub mod Ancestors
pub mod Early
