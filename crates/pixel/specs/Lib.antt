pub mod Pixel
pub mod Worked
pub mod Floor
pub mod Value
pub mod Laws
