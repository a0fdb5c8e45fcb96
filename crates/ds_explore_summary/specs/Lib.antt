pub mod Summaries
pub mod Lines
