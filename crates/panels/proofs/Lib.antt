pub mod StepLaws
pub mod Alone
