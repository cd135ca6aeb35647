pub mod Filling
pub mod Exact
pub mod Making
pub mod Testing
pub mod Leaving
pub mod Settled
