pub mod Floats
pub mod Geometry
