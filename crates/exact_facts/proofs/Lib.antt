pub mod Bill
