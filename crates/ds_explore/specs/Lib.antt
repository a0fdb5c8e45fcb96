pub mod Lines
pub mod Judging
pub mod Starts
pub mod Explored
pub mod Whole
pub mod Met
