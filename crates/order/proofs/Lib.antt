pub mod Accepted
pub mod Fresh
pub mod InOrder
pub mod Steady
