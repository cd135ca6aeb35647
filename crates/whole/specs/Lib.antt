pub mod Whole
pub mod Compare
pub mod More
pub mod Test
pub mod Coarse
pub mod Range
