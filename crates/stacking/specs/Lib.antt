pub mod Footing
