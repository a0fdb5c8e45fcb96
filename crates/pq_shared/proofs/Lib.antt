pub mod Ending
pub mod Truth
