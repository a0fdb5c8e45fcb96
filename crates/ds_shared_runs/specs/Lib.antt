pub mod History
pub mod CallEvents
pub mod Runs
pub mod Fitting
pub mod Answered
