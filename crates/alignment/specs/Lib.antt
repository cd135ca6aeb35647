pub mod Align
pub mod Laws
