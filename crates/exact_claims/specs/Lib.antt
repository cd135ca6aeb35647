pub mod Relayout
pub mod AtExit
