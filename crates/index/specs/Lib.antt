pub mod Loops
pub mod Entries
pub mod Index
pub mod Due
