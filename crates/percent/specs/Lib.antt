pub mod Parts
pub mod Before
pub mod Widths
pub mod Probes
pub mod NoWidth
pub mod OnTables
