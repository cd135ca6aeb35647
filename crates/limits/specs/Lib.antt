pub mod Bools
pub mod Limits
pub mod Laws
pub mod Same
