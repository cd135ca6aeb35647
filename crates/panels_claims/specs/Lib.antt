pub mod Fresh
pub mod Lengths
pub mod Refused
