pub mod AtExit
