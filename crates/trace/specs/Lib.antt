pub mod Event
pub mod File
