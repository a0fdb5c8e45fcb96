pub mod SameSteps
pub mod MarkSteps
pub mod RegisterMoves
