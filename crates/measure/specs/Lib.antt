pub mod Dry
pub mod Contract
pub mod Public
