pub mod ScanLaws
pub mod GoodPage
pub mod NeededWalk
pub mod Passing
pub mod Exactly
pub mod Ancestors
pub mod TreePasses
pub mod TreeFaults
