pub mod Panel
pub mod Spans
pub mod Above
pub mod Coarse
pub mod Due
pub mod Sides
