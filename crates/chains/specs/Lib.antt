pub mod Pages
pub mod Chain
pub mod Agreed
