pub mod Running
pub mod Halving
pub mod Scroll
