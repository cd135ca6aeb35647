pub mod Length
pub mod Available
