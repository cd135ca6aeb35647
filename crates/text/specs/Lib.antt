pub mod Pieces
pub mod Values
pub mod Laws
