pub mod Panels
pub mod Alone
