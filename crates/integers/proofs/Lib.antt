pub mod Clauses
pub mod Computed
