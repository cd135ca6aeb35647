pub mod Beginning
pub mod Lines
pub mod Whole
