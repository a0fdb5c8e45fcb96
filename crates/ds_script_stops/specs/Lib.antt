pub mod StopBlocks
pub mod Reaching
pub mod CleanBlocks
