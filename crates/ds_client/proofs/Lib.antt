pub mod Floats
pub mod Understood
pub mod Drawn
pub mod Rows
