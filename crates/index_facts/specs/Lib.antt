pub mod Unsorted
