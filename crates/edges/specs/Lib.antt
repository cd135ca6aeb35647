pub mod Edges
pub mod Tests
