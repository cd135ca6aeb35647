pub mod Codes
pub mod Flow
pub mod Planes
pub mod Style
pub mod Units
pub mod Fields
