pub mod Ascending
pub mod Going
