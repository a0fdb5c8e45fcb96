pub mod Telling
pub mod Judged
pub mod Valued
pub mod Going
pub mod Leading
mod Meeting
mod Ways
