pub mod Turns
pub mod Homes
pub mod Calls
pub mod Sheets
pub mod Resting
