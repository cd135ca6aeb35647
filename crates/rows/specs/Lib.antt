pub mod Store
pub mod Edited
