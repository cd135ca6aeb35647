pub mod Fill
pub mod Edits
pub mod Bits
pub mod ClearLoop
pub mod Tests
