pub mod Leaves
pub mod Tail
