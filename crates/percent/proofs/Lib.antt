pub mod NoWidth
pub mod Before
pub mod OnTables
