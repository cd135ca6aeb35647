pub mod Reader
pub mod Order
pub mod Engine
pub mod Alike
pub mod ByColumn
pub mod Back
