pub mod Coarse
pub mod Test
pub mod CoarseLaws
pub mod Range
