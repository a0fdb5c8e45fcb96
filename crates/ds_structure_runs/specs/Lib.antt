pub mod Runs
pub mod Boards
