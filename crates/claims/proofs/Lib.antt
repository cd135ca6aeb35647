pub mod AgreeAlike
pub mod Agreeing
pub mod EndsAlike
pub mod EveryCall
pub mod AtExit
