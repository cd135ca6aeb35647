pub mod Tree
pub mod Table
