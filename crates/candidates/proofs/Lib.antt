pub mod MoveLoop
pub mod RowParts
pub mod GatherLoop
pub mod OneTree
