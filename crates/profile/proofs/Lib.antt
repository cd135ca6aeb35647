pub mod Exact
pub mod Page
