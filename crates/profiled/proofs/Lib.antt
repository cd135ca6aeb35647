pub mod Testing
pub mod Settled
