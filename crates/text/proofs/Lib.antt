pub mod PieceTurn
pub mod DigitTurn
