pub mod Run
pub mod Few
pub mod Cut
pub mod Decode
pub mod Within
pub mod Finish
pub mod EnoughOrFew
