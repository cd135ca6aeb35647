pub mod Answered
pub mod AsProfile
