pub mod Endings
pub mod Truths
