pub mod Pages
pub mod Heights
pub mod Shrunk
pub mod Baselines
