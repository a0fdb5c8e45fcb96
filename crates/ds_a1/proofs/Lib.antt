pub mod Steps
pub mod Opened
pub mod Solids
pub mod Fronts
pub mod Shown
