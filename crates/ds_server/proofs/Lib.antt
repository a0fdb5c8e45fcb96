pub mod Floats
pub mod LineLemmas
pub mod Answered
pub mod RowLemmas
pub mod Sessions
pub mod Runs
pub mod Worlds
pub mod Edits
mod Tokens
