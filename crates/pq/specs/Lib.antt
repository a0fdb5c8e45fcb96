pub mod Places
pub mod Calls
pub mod History
pub mod Sound
pub mod Knows
pub mod Queue
pub mod Runs
