pub mod Lists
pub mod Cells
pub mod Changes
pub mod Explored
pub mod Positions
pub mod Closed
pub mod Starts
pub mod Tables
