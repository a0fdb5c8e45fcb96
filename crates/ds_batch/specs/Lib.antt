pub mod Answers
pub mod Openings
pub mod Refusals
pub mod Scripts
pub mod Statuses
pub mod Tables
