pub mod Histories
pub mod Values
pub mod Counted
pub mod Events
pub mod Answered
pub mod Converted
pub mod Right
