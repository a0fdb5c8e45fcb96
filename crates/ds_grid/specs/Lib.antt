pub mod Grids
pub mod GridEndings
pub mod Labels
