pub mod Back
pub mod ByColumn
pub mod Order
