pub mod Bill
pub mod Reasons
