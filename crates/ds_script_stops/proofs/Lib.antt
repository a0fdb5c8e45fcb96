pub mod Playing
pub mod Opening
pub mod Carrying
pub mod Lines
pub mod Telling
pub mod Ending
pub mod CleanBlocks
