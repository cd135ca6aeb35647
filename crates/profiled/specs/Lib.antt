pub mod Profiled
pub mod Public
