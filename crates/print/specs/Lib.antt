pub mod Pen
pub mod Text
pub mod Sizes
