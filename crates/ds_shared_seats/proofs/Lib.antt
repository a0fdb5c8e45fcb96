pub mod Closing
pub mod Crossing
pub mod Going
pub mod Looking
pub mod Moving
