pub mod Profile
pub mod Page
pub mod Exact
