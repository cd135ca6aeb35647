pub mod Counting
pub mod Fronts
pub mod Parts
pub mod CheckTurn
pub mod CheckRoot
