pub mod Writes
pub mod Raises
pub mod Truths
