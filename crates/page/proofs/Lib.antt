pub mod BodyTurn
pub mod HeadFits
pub mod WholeFile
