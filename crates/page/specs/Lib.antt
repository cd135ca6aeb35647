pub mod Head
pub mod Body
pub mod File
