pub mod Sums
pub mod Numbers
pub mod Zeros
pub mod Solid
pub mod Mono
pub mod Worked
