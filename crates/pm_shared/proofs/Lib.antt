pub mod Sitting
pub mod Writing
pub mod Raised
pub mod Linearized
