pub mod Cases
pub mod Eleven
pub mod Demand3
pub mod Exact
pub mod FromC
