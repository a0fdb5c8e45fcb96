pub mod Keeping
pub mod Crashing
pub mod Briefs
