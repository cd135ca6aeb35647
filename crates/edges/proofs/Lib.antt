pub mod Outward
pub mod OfTree
pub mod Exact
pub mod Words
