pub mod TreeCheck
