pub mod Faults
pub mod Joining
pub mod Journals
pub mod Standings
pub mod Written
