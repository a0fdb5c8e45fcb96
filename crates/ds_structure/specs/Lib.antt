pub mod Calls
pub mod Classes
pub mod Sheet
pub mod Runs
