pub mod Passed
pub mod Contract
