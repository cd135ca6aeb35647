pub mod Others
pub mod OnTables
pub mod Origins
pub mod Found
