pub mod Question
pub mod Halves
