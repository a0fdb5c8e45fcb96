pub mod Owns
pub mod Writes
pub mod Recoveries
pub mod Sound
pub mod Runs
pub mod Linearizing
pub mod Recalled
