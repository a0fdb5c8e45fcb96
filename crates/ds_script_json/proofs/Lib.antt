mod Floats
mod Carrying
pub mod JsonRuns
