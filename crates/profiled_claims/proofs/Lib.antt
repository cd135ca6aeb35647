pub mod FromC
pub mod Eleven
