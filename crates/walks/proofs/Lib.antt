pub mod Parts
pub mod Given
pub mod Sizes
pub mod Edited
pub mod Zeros
pub mod LowerLoop
pub mod KeepLoop
