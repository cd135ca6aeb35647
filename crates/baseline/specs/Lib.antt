pub mod Unlined
pub mod New
pub mod Others
pub mod Carried
pub mod Origins
pub mod Found
pub mod OnTables
