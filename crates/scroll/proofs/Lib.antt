pub mod HalvingLaws
pub mod RunningLaws
pub mod FirstMatch
pub mod Finite
pub mod Answers
