pub mod Edited
pub mod Called
pub mod Standing
pub mod Replay
pub mod Refused
pub mod NeverCut
