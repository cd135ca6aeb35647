pub mod Asides
pub mod Flows
pub mod Laid
pub mod Stands
pub mod Members
pub mod Records
