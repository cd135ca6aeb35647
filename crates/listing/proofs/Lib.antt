pub mod Flows
pub mod Members
pub mod Records
pub mod Laid
pub mod Asides
pub mod Stands
