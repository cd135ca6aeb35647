pub mod Refused
pub mod Replay
