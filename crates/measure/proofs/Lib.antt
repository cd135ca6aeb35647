pub mod Sites
pub mod DryClauses
pub mod Loops
pub mod OneNode
pub mod NothingKept
pub mod NothingProbed
pub mod Afresh
pub mod PageSize
