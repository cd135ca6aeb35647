pub mod Agreed
pub mod Chain
