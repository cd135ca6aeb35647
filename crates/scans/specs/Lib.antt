pub mod Scans
pub mod UnitMasks
