pub mod Structures
pub mod Runs
pub mod Alone
