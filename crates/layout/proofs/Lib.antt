pub mod Finish
pub mod Count
pub mod BothPasses
pub mod Accepted
pub mod OldRows
pub mod PublicCalls
