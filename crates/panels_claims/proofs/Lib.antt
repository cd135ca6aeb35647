pub mod Refused
pub mod Mended
pub mod Lengths
