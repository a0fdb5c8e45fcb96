pub mod Endings
pub mod Floats
