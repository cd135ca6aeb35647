pub mod Margin
pub mod Laws
pub mod Worked
